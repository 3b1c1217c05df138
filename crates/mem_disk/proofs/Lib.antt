mod Imaged
mod Past
mod Pushed
