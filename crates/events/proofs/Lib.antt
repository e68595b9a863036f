pub mod FrontCode
