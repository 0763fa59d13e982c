mod Answered
mod KeyRows
mod Widened
