mod Looked
mod Places
mod Committed
mod Rows
