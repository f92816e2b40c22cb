mod Checks
mod Fillings
mod Headers
mod Laws
