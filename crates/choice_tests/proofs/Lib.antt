mod Ladders
mod Parts
mod Three
