mod Exact
mod Findings
mod Parts
