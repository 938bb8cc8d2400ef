mod Goes
mod Listed
pub mod Same
