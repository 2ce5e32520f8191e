mod Polled
mod Sent
