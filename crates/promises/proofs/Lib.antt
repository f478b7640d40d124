mod StableNames
mod WithoutAnswer
