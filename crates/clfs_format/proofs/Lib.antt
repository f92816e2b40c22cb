mod Joining
mod Copies
mod Made
