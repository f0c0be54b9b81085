-- The typed tree: what the expressions and statements of a package mean, as mathematical trees. Each kind of value has
-- trees of its own, so a tree is well formed by itself. Every constant number stands as that number. `at` is the place
-- of an expression, and `sign` that of an operator's sign.
use Rattle.std.specs.Prelude.{ℕ, Bool, Option, List}
use Rattle.wf_text.specs.declared.place.Place.{Place}
use Rattle.wf_text.specs.declared.categories.Category.{Category}
use Rattle.wf_base.specs.declared.marks.Mark.{Mark}
use Rattle.wf_base.specs.declared.base_methods.ReadForm.{ReadForm}
use Rattle.wf_base.specs.declared.base_methods.PeekForm.{PeekForm}
use Rattle.wf_ast.specs.declared.parsed.Clause.{Clause}

-- What a path names: a local or an argument of the method, or a field of the receiver, by its number.
pub data Path : Type 0 where
  local : ℕ → Path
  field : ℕ → Path
  arg : ℕ → Path

-- The type of a number: its bits, and the least and the greatest number that it holds.
pub record NumType : Type 0 where
  pub bits : ℕ
  pub low : ℕ
  pub high : ℕ

-- The operators that give a number.
pub data Arith : Type 0 where
  plus : Arith
  minus : Arith
  times : Arith
  divided : Arith
  remainder : Arith
  shift_left : Arith
  shift_right : Arith
  bits_and : Arith
  bits_or : Arith
  bits_xor : Arith
  mod_plus : Arith
  mod_minus : Arith
  mod_times : Arith
  mod_shift_left : Arith
  sat_plus : Arith
  sat_minus : Arith

-- The operators that compare numbers.
pub data Order : Type 0 where
  less : Order
  at_most : Order
  equal : Order
  differs : Order
  at_least : Order
  greater : Order

-- What is asked of a reader or a writer for a number.
pub data Question : Type 0 where
  reader_length : Question
  reader_position : Question
  peek : PeekForm → Question
  writer_length : Question
  writer_position : Question

-- Numbers and slices. An operator has two operands: a chain of more is one operator before the other, and
-- from the second on each is `joined` to what the ones before it make.
mutual
  pub data NumTree : Type 0 where
    number : (at : Place) → (value : ℕ) → NumTree
    read : (at : Place) → (of : NumType) → Path → NumTree
    element : (at : Place) → (of : NumType) → SliceTree → (index : NumTree) → NumTree
    link : (at sign : Place) → Arith → (bits : ℕ) → (joined : Bool) → NumTree → NumTree → NumTree
    convert : (at sign : Place) → (bits : ℕ) → NumTree → NumTree
    length_of : (at : Place) → SliceTree → NumTree
    asked : (at : Place) → Question → (io_arg : ℕ) → NumTree

  pub data SliceTree : Type 0 where
    -- a local or an argument; a whole array, which stands in a field; and a part
    slice : (at : Place) → (bits : ℕ) → Path → SliceTree
    array : (at : Place) → (of : NumType) → (count : ℕ) → Path → SliceTree
    cut : (at : Place) → SliceTree → (from to : EndTree) → SliceTree

  pub data EndTree : Type 0 where
    absent : EndTree
    present : NumTree → EndTree

pub data StatusTree : Type 0 where
  status : (at : Place) → (number : ℕ) → StatusTree
  held : (at : Place) → Path → StatusTree
  no_status : StatusTree

pub data CondTree : Type 0 where
  truth : (at : Place) → Bool → CondTree
  flag : (at : Place) → Path → CondTree
  compare : (at sign : Place) → NumTree → Order → NumTree → CondTree
  -- of two statuses: that they are one, or that they are two
  same_status : (at sign : Place) → StatusTree → (one : Bool) → StatusTree → CondTree
  -- `and` where both have to hold, else `or`
  junction : (at : Place) → (both joined : Bool) → CondTree → CondTree → CondTree
  negation : (at : Place) → CondTree → CondTree
  closed : (at : Place) → (io_arg : ℕ) → CondTree
  has_category : (at : Place) → StatusTree → Category → CondTree

-- An expression of any kind. `lost`, as `no_status` above, stands for what is no expression of a typed package.
pub data ValueTree : Type 0 where
  numeric : NumTree → ValueTree
  logical : CondTree → ValueTree
  state : StatusTree → ValueTree
  elements : SliceTree → ValueTree
  io : (at : Place) → (io_arg : ℕ) → ValueTree
  lost : ValueTree

-- What is written to.
pub data Target : Type 0 where
  to_number : (at : Place) → NumType → Path → Target
  to_element : (at : Place) → NumType → SliceTree → (index : NumTree) → Target
  to_flag : (at : Place) → Path → Target
  to_status : (at : Place) → Path → Target
  to_slice : (at : Place) → (bits : ℕ) → Path → Target
  to_nothing : Target

-- A base method that may suspend, with its argument.
pub data Awaited : Type 0 where
  take_number : ReadForm → Awaited
  skip : (count : NumTree) → Awaited
  write : (byte : NumTree) → Awaited

-- A base method that writes and doesn't suspend.
pub data Written : Type 0 where
  skip_fast : (io_arg : ℕ) → (actual worst_case : NumTree) → Written
  write_fast : (io_arg : ℕ) → (byte : NumTree) → Written
  copy_to_writer : (io_arg : ℕ) → (source : SliceTree) → Written
  copy_to_slice : (target source : SliceTree) → Written

-- The method that a call means: of the receiver itself, or of what stands in one of its fields.
pub data Called : Type 0 where
  own : (method : ℕ) → Called
  sub : (field method : ℕ) → Called

-- An axiom's text, the place of its opening quote, and what is given for its letters.
pub record Axiom : Type 0 where
  pub at : Place
  pub text : List ℕ
  pub given : List (List ℕ × NumTree)

-- A statement without blocks of its own. `call_at` is the place of a call's method name. `target` is `to_nothing`
-- where a call has none. `keep` tells `=?`. `break_from` and `continue_in` tell the loop's number.
pub data Simple : Type 0 where
  -- `op` is the operator before the `=`; the value is then the operator's
  assign : Target → (op : Option Arith) → ValueTree → Simple
  await : (call_at : Place) → Target → (io_arg : ℕ) → Awaited → Simple
  perform : (call_at : Place) → Target → Written → Simple
  invoke : (call_at : Place) → Target → (keep : Bool) → Mark → Called → List ValueTree → Simple
  break_from : ℕ → Simple
  continue_in : ℕ → Simple
  give_back : Option ValueTree → Simple
  yield : (status : ℕ) → Simple
  claim : CondTree → Option Axiom → Simple

-- Where a statement stands: its number, and the place of its first token.
pub record Site : Type 0 where
  pub number : ℕ
  pub at : Place

-- What stands before a loop's body: its condition, and what its clauses promise, in order. `is_left` tells that a
-- `break` leaves the loop, and `close` is the place of its body's closing brace.
pub record Head : Type 0 where
  pub cond : CondTree
  pub clauses : List (Clause × CondTree)
  pub is_left : Bool
  pub close : Place

-- A statement with those that follow it in its block. An `if` has one condition: what an `else if` stands before is
-- the `if` that follows the `else`, and is `chained` to it.
pub data Block : Type 0 where
  end : Block
  plain : Site → Simple → (rest : Block) → Block
  choose : Site → (chained : Bool) → CondTree → (then otherwise rest : Block) → Block
  loop : Site → Head → (body rest : Block) → Block
