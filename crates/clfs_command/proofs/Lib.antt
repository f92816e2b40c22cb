mod Lines
mod NoCommands
mod NoShares
mod NoDoors
