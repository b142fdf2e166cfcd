mod Reading
mod Files
