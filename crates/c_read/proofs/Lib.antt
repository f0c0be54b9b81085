mod MappedErrors
mod ReadBack
mod ReadLaws
mod Starting
