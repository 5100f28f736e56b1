mod Fit
mod Named
mod Once
