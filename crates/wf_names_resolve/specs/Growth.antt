-- How the nodes of a resolved package grow while trees are added.
use Rattle.std.specs.Prelude.{◌≡◌, ◌<◌, ◌≤◌, ℕ, List, length, slice_get}
use Rattle.wf_named.specs.NamedParts.{NamedParts, exprs_of, stmts_of, named_package}

-- The items of a list are those of the other, by place.
abbrev pub Keeps : {X : Type 0} → (count : ℕ) → (old new : List X) → Type 0
Keeps count old new = (i : ℕ) → i < count → slice_get old i ≡ slice_get new i

-- Texts, expressions and statements may be added: those that were there keep their numbers and their trees, and so does
-- the package of all declarations.
pub record Grows (old new : NamedParts) : Type 0 where
  pub texts : length old.texts ≤ length new.texts
  pub exprs : length old.exprs ≤ length new.exprs
  pub stmts : length old.stmts ≤ length new.stmts
  pub same_texts : Keeps (length old.texts) old.texts new.texts
  pub same_exprs : Keeps (length old.exprs) (exprs_of old) (exprs_of new)
  pub same_stmts : Keeps (length old.stmts) (stmts_of old) (stmts_of new)
  pub whole : named_package new ≡ named_package old
