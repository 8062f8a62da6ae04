mod Spreads
mod Turns
mod Apart
mod Suited
