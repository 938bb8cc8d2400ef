mod Examples
mod Rects
