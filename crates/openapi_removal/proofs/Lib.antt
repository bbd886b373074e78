mod Comparing
mod Cutting
mod Grouping
mod Planning
mod Reported
mod Trees
