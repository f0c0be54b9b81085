-- Which methods a method calls, as lists of numbers.
use Rattle.std.specs.Prelude.{◌≡◌, ◌<◌, ℕ, List, [], ◌++◌, Some, length}
use Rattle.graphs.specs.Graphs.{holds, goes}
use Rattle.wf_ast.specs.ParsedTree.{CallTree}
use Rattle.wf_names_rules.specs.Called.{with_calls}
use Rattle.wf_names_rules.specs.Declarations.{Method, Declared}
use Rattle.wf_names_rules.specs.Uses.{Use}
use Rattle.wf_names_rules.specs.Meanings.{Known, callee_of}
use Rattle.wf_names_rules.specs.NameRules.{method_calls, calls}

-- The methods that these uses call.
abbrev pub called_in : Known → List Use → List ℕ
called_in k usages = with_calls k [] usages

-- By both a call's method name stands for the same.
abbrev pub AgreeOnCalls : Known → Known → Type 0
AgreeOnCalls k l = (c : CallTree) → callee_of k c ≡ callee_of l c

-- A row has the numbers of the methods that this one calls, and no others.
abbrev pub IsRowOf : Declared → Method → List ℕ → Type 0
IsRowOf d m row = (b : ℕ) → holds row b ≡ method_calls d (Some m) b

-- The rows of the first k methods.
pub record AreRows (d : Declared) (rows : List (List ℕ)) (k : ℕ) : Type 0 where
  pub len : length rows ≡ k
  pub made : (a b : ℕ) → a < k → goes rows a b ≡ calls d a b

-- The rows of the methods before those that are left.
pub record AreRowsInFront (d : Declared) (rows : List (List ℕ)) (left : List Method) : Type 0 where
  pub front : List Method
  pub whole : d.methods ≡ front ++ left
  pub made : AreRows d rows (length front)
