pub mod Is
