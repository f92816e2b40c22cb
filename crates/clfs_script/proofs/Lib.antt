mod VerbLengths
mod SizeLists
mod Appends
mod WholeLines
