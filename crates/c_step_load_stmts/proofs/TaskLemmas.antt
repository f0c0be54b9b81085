-- Tasks at the end of a list.
use Rattle.std.proofs.Common.{◌≡◌, ◌+◌, List, [], ◌∷◌, ◌++◌, refl, sym, ap, ◌∙◌, subst, arith}
use Rattle.std.specs.Prelude.{reverse}
use Rattle.std.proofs.lemmas.List.{append_assoc, reverse-append}
use Rattle.c_text.specs.CNodes.{Nodes}
use Rattle.c_step_text.specs.Flat.{FlatText}
use Rattle.c_step_text.specs.Layout.{Names}
use Rattle.c_step_load_stmts.specs.declared.tasks.Task.{Task}
use Rattle.c_step_load_stmts.specs.Tasks.{with_tasks, finished, HasTask, HasTasks, task_size, size_of}

pub has_push : (nodes : Nodes) (left : List Task) (x : Task) → HasTasks nodes left → HasTask nodes x → HasTasks nodes (left ++ x ∷ [])
has_push nodes [] x h k = (k, tt)
has_push nodes (y ∷ ys) x h k = (h.0, has_push nodes ys x h.1 k)

pub has_last : (nodes : Nodes) (left : List Task) (x : Task) → HasTasks nodes (left ++ x ∷ []) → HasTasks nodes left × HasTask nodes x
has_last nodes [] x h = (tt, h.0)
has_last nodes (y ∷ ys) x h = let k = has_last nodes ys x h.1 in ((h.0, k.0), k.1)

pub size_push : (nodes : Nodes) (left : List Task) (x : Task) → size_of nodes (left ++ x ∷ []) ≡ size_of nodes left + task_size nodes x
size_push nodes [] x = omega arith
size_push nodes (y ∷ ys) x = let e : size_of nodes (ys ++ x ∷ []) ≡ size_of nodes ys + task_size nodes x = size_push nodes ys x in omega (arith, e)

-- One more, where a list is told by an equation.
module _ (nodes : Nodes) (old new : List Task) (x : Task) (is : new ≡ old ++ x ∷ []) where
  pub one_has : HasTasks nodes old → HasTask nodes x → HasTasks nodes new
  one_has h k = subst (HasTasks nodes) (sym is) (has_push nodes old x h k)

  pub one_size : size_of nodes new ≡ size_of nodes old + task_size nodes x
  one_size = ap (size_of nodes) is ∙ size_push nodes old x

-- Three more, the last first.
three : (old : List Task) (x y z : Task) → old ++ x ∷ y ∷ z ∷ [] ≡ ((old ++ x ∷ []) ++ y ∷ []) ++ z ∷ []
three old x y z = sym (append_assoc (old ++ x ∷ []) (y ∷ []) (z ∷ []) ∙ append_assoc old (x ∷ []) (y ∷ z ∷ []))

module _ (nodes : Nodes) (old new : List Task) (x y z : Task) (is : new ≡ old ++ x ∷ y ∷ z ∷ []) where
  split : new ≡ ((old ++ x ∷ []) ++ y ∷ []) ++ z ∷ []
  split = is ∙ three old x y z

  pub three_has : HasTasks nodes old → HasTask nodes x → HasTask nodes y → HasTask nodes z → HasTasks nodes new
  three_has h a b c = subst (HasTasks nodes) (sym split) (has_push nodes ((old ++ x ∷ []) ++ y ∷ []) z (has_push nodes (old ++ x ∷ []) y (has_push nodes old x h a) b) c)

  pub three_size : size_of nodes new ≡ size_of nodes old + task_size nodes x + task_size nodes y + task_size nodes z
  three_size =
      let a : size_of nodes (old ++ x ∷ []) ≡ size_of nodes old + task_size nodes x = size_push nodes old x in
      let b : size_of nodes ((old ++ x ∷ []) ++ y ∷ []) ≡ size_of nodes (old ++ x ∷ []) + task_size nodes y = size_push nodes (old ++ x ∷ []) y in
      let c : size_of nodes (((old ++ x ∷ []) ++ y ∷ []) ++ z ∷ []) ≡ size_of nodes ((old ++ x ∷ []) ++ y ∷ []) + task_size nodes z = size_push nodes ((old ++ x ∷ []) ++ y ∷ []) z in
      ap (size_of nodes) split ∙ omega (arith, a, b, c)

-- Four more.
four : (old : List Task) (x y z v : Task) → old ++ x ∷ y ∷ z ∷ v ∷ [] ≡ (old ++ x ∷ y ∷ z ∷ []) ++ v ∷ []
four old x y z v = sym (append_assoc old (x ∷ y ∷ z ∷ []) (v ∷ []))

module _ (nodes : Nodes) (old new : List Task) (x y z v : Task) (is : new ≡ old ++ x ∷ y ∷ z ∷ v ∷ []) where
  pub four_has : HasTasks nodes old → HasTask nodes x → HasTask nodes y → HasTask nodes z → HasTask nodes v → HasTasks nodes new
  four_has h a b c d = subst (HasTasks nodes) (sym (is ∙ four old x y z v)) (has_push nodes (old ++ x ∷ y ∷ z ∷ []) v (three_has nodes old (old ++ x ∷ y ∷ z ∷ []) x y z refl h a b c) d)

  pub four_size : size_of nodes new ≡ size_of nodes old + task_size nodes x + task_size nodes y + task_size nodes z + task_size nodes v
  four_size =
      let a : size_of nodes (old ++ x ∷ y ∷ z ∷ []) ≡ size_of nodes old + task_size nodes x + task_size nodes y + task_size nodes z = three_size nodes old (old ++ x ∷ y ∷ z ∷ []) x y z refl in
      let b : size_of nodes ((old ++ x ∷ y ∷ z ∷ []) ++ v ∷ []) ≡ size_of nodes (old ++ x ∷ y ∷ z ∷ []) + task_size nodes v = size_push nodes (old ++ x ∷ y ∷ z ∷ []) v in
      ap (size_of nodes) (is ∙ four old x y z v) ∙ omega (arith, a, b)

  pub four_finished : (names : Names) (t : FlatText) → finished nodes names t new ≡ with_tasks nodes names t (v ∷ z ∷ y ∷ x ∷ reverse old)
  four_finished names t = ap (finished nodes names t) is ∙ ap (with_tasks nodes names t) (reverse-append old (x ∷ y ∷ z ∷ v ∷ []))
