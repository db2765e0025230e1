pub mod Hmac
pub mod Kdf
pub mod Keys
pub mod Mac
pub mod Published
pub mod ServingNetwork
