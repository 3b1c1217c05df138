mod Read
mod Counts
mod CountedSets
mod CountedDraws
mod Renamed
mod Valued
