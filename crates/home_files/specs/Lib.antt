pub mod HomeFiles
