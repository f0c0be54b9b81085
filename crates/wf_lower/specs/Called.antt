-- Which methods are called by a method of their package, and which have an entry.
use Rattle.std.specs.Prelude.{◌≡◌, ℕ, Bool, false, not, ◌||◌, List, length, nat_eq}
use Rattle.std.specs.List.{list_any}
use Rattle.wf_ast.specs.declared.numbers.StmtId.{StmtId}
use Rattle.wf_ast.specs.declared.typed_code.Callee.{Callee}
use Rattle.wf_ast.specs.declared.typed_code.Callee.TheVariants as callees
use Rattle.wf_ast.specs.declared.typed_code.Stmt.{Stmt}
use Rattle.wf_ast.specs.declared.typed_code.Stmt.TheVariants as stmts
use Rattle.wf_ast.specs.TypedPackage.{MethodTree, PackageTree}
use Rattle.wf_ast.specs.TypedTree.{Simple, invoke}
use Rattle.wf_ast.specs.WellTyped.{number_of}
use Rattle.wf_lower_stmts.specs.BodyNodes.{stands, stands_among, stands_in_if}
use Rattle.wf_lower.specs.Flags.{is_set}

-- The statement calls the method with this number.
abbrev pub calls : (number : ℕ) → Simple → Bool
calls n (invoke at target keep mark called given) = nat_eq (number_of called) n
calls n s = false

-- Some method of the package calls it.
abbrev pub is_called : PackageTree → (number : ℕ) → Bool
is_called p n = list_any (λ m. stands (calls n) m.body) p.methods

-- A public method has an entry, for callers outside, and so has a private one that nothing calls: some function calls each body.
abbrev pub has_entry : PackageTree → (number : ℕ) → MethodTree → Bool
has_entry p n m = m.public || not (is_called p n)

-- What a statement calls, and a statement by its node, where `look` tells of the statements inside it.
abbrev pub is_callee : (number : ℕ) → Callee → Bool
is_callee n (callees.Own m) = nat_eq m.0 n
is_callee n (callees.Sub x m) = nat_eq m.0 n
is_callee n (callees.Base on sig) = false

abbrev pub node_calls : (number : ℕ) → (look : StmtId → Bool) → Stmt → Bool
node_calls n look (stmts.If arms otherwise) = stands_in_if look arms otherwise
node_calls n look (stmts.While head body) = stands_among look body.items
node_calls n look (stmts.Call target keep callee args) = is_callee n callee
node_calls n look st = false

-- The flags are those of just the methods that are called.
pub record AreCalled (p : PackageTree) (flags : List Bool) : Type 0 where
  pub sized : length flags ≡ length p.methods
  pub are : (n : ℕ) → is_set flags n ≡ is_called p n
