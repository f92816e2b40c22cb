mod Passing
mod Tables
mod Fronts
mod Carried
mod Noted
