-- cited by the contracts of the public calls
pub mod Calls
pub mod Lists
pub mod Seats
-- of the lock alone
pub mod Rule
pub mod Steps
pub mod Views
