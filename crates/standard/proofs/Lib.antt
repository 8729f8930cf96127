pub mod Failed
