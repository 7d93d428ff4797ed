mod Along
mod Places
