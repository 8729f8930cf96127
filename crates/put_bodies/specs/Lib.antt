pub mod Mpids
