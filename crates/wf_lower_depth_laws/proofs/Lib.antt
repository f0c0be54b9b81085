pub mod ExprDepth
pub mod ReadDepth
pub mod ReadTexts
pub mod ResolvedDepth
pub mod Room
pub mod StmtDepth
pub mod TypedDepth
pub mod TypedParts
