use Rattle.std.proofs.Common.{rules, ◌≡◌, ◌∙◌, sym, ap, ℕ, nat_eq, length, vec_len}
use Rattle.std.proofs.lemmas.List.{places}
use Rattle.c_mem.proofs.Bytes.{all_set, none_set}
use Rattle.c_mem.proofs.fields.Field.has_bytes.Goals as goal

pub returns-then-set : goal.returns-then-set
returns-then-set c = rw (← c.self.view_is, c.in-Bytes.is, c.if-set.true) (sym (all_set c.in-Bytes.them.items))

pub returns-else-set : goal.returns-else-set
returns-else-set c =
    let n : vec_len c.in-Bytes.them ≡ length c.in-Bytes.them.items = search (rules, places) in
    rw (← c.self.view_is, c.in-Bytes.is, c.if-set.false) (c.is_empty.ensures ∙ (ap (λ (k : ℕ). nat_eq k 0) n ∙ sym (none_set c.in-Bytes.them.items)))
