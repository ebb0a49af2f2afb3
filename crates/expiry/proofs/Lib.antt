mod Leaving
mod Cutting
