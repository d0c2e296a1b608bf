mod Carried
mod Leaves
pub mod Goes
