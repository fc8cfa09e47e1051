pub mod Runtimes
