mod Asking
mod Failing
mod Going
mod Pods
mod Turning
mod Moments
mod Opened
mod Worded
