mod Joined
mod Counted
mod Scanning
mod Laying
