mod Steps
mod Turning
mod Under
