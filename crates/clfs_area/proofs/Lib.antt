mod Books
mod Asked
mod Found
mod Replies
mod Told
