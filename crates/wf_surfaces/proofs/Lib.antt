pub mod SurfaceLemmas
