-- What an expression mentions. A length mentions what it is the length of.
use Rattle.std.specs.Prelude.{◌≡◌, ℕ, Bool, true, false, ◌||◌, nat_eq}
use Rattle.wf_ast.specs.TypedTree.{Path, local, field, arg, NumTree, number, read, element, link, convert, length_of, asked, SliceTree, slice, array, cut, EndTree, absent, present, StatusTree, status, held, no_status, CondTree, truth, flag, compare, same_status, junction, negation, closed, has_category, ValueTree, numeric, logical, state, elements, io, lost}
use Rattle.wf_ast.specs.Value.{Store, State, io_buffer}
use Rattle.wf_ast.specs.declared.things.Thing.{Thing}
use Rattle.wf_ast.specs.declared.things.Thing.TheVariants as things

-- A path is, or stands under, this thing.
abbrev pub path_is : Thing → Path → Bool
path_is (things.Local x) (local n) = nat_eq x.0 n
path_is (things.Field x) (field n) = nat_eq x.0 n
path_is (things.Arg x) (arg n) = nat_eq x.0 n
path_is things.This (field n) = true
path_is things.Args (arg n) = true
path_is x p = false

-- The same of a slice, of which a local may be meant as such.
abbrev pub slice_is : Thing → Path → Bool
slice_is things.SliceLocals (local n) = true
slice_is x p = path_is x p

abbrev pub is_element : Thing → Bool
is_element things.Element = true
is_element x = false

abbrev mutual
  pub num_mentions : Thing → NumTree → Bool
  num_mentions x (number at n) = false
  num_mentions x (read at of p) = path_is x p
  num_mentions x (element at of cells index) = is_element x || (slice_mentions x cells || num_mentions x index)
  num_mentions x (link at sign op bits joined a b) = num_mentions x a || num_mentions x b
  num_mentions x (convert at sign bits a) = num_mentions x a
  num_mentions x (length_of at cells) = slice_mentions x cells
  num_mentions x (asked at question a) = path_is x (arg a)

  pub slice_mentions : Thing → SliceTree → Bool
  slice_mentions x (slice at bits p) = slice_is x p
  slice_mentions x (array at of count p) = slice_is x p
  slice_mentions x (cut at cells from to) = slice_mentions x cells || (end_mentions x from || end_mentions x to)

  pub end_mentions : Thing → EndTree → Bool
  end_mentions x absent = false
  end_mentions x (present a) = num_mentions x a

abbrev pub status_mentions : Thing → StatusTree → Bool
status_mentions x (status at n) = false
status_mentions x (held at p) = path_is x p
status_mentions x no_status = false

abbrev pub cond_mentions : Thing → CondTree → Bool
cond_mentions x (truth at b) = false
cond_mentions x (flag at p) = path_is x p
cond_mentions x (compare at sign a op b) = num_mentions x a || num_mentions x b
cond_mentions x (same_status at sign a one b) = status_mentions x a || status_mentions x b
cond_mentions x (junction at both joined a b) = cond_mentions x a || cond_mentions x b
cond_mentions x (negation at a) = cond_mentions x a
cond_mentions x (closed at a) = path_is x (arg a)
cond_mentions x (has_category at a category) = status_mentions x a

-- Whether the expression mentions the thing.
abbrev pub mentions : ValueTree → Thing → Bool
mentions (numeric t) x = num_mentions x t
mentions (logical t) x = cond_mentions x t
mentions (state t) x = status_mentions x t
mentions (elements t) x = slice_mentions x t
mentions (io at a) x = path_is x (arg a)
mentions lost x = false

-- Two states differ at most in what this thing stands for.
pub record AgreeBut (x : Thing) (s s' : State) : Type 0 where
  pub numbers : (p : Path) → path_is x p ≡ false → s.number_at p ≡ s'.number_at p
  pub flags : (p : Path) → path_is x p ≡ false → s.flag_at p ≡ s'.flag_at p
  pub statuses : (p : Path) → path_is x p ≡ false → s.status_at p ≡ s'.status_at p
  pub spans : (p : Path) → slice_is x p ≡ false → s.span_at p ≡ s'.span_at p
  pub elements : is_element x ≡ false → (store : Store) → s.cells_at store ≡ s'.cells_at store
  pub buffers : (a : ℕ) → path_is x (arg a) ≡ false → io_buffer s a ≡ io_buffer s' a
  pub texts : (n : ℕ) → s.status_text n ≡ s'.status_text n
