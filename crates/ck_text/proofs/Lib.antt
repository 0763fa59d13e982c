mod Payloads
mod Ranges
mod Refusals
