mod Sound
mod Calls
mod Yards
mod PlainTask
