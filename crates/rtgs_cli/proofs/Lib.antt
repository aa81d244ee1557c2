pub mod ForRequest
