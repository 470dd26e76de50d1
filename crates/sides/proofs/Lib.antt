-- What can be shown.
mod Showing
