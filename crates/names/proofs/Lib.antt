pub mod SearchCode
