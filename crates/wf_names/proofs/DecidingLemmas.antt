-- Sections that decide one after the other decide together, and what the sizes of structs ask of their cycles.
use Rattle.std.proofs.Common.{◌≡◌, ◌⊎◌, ℕ, Option, None, sym, subst, inl, inr, arith}
use Rattle.wf_text.specs.declared.rules.Refusal.{Refusal}
use Rattle.wf_text.specs.Precedence.{Decides}
use Rattle.wf_text.proofs.PrecedenceLaws.{Decides-map}
use Rattle.graphs.specs.Graphs.{AreCycles}
use Rattle.wf_names_rules.specs.Declarations.{Declared}
use Rattle.wf_names_rules.specs.NameRules.{DeclarationBreaks, UseBreaks, LabelBreaks, CycleBreaks, SizeBreaks, Breaks, by_declaration, by_use, by_label, by_cycle, by_size}
use Rattle.wf_names_decls.specs.DeclarationPass.{declarations_found}
use Rattle.wf_names_rules.specs.Jumps.{labels_found}
use Rattle.wf_names_decls.proofs.DeclarationLaws.{declarations-decide}
use Rattle.wf_names_decls.proofs.LabelLaws.{labels-decide}
use Rattle.wf_names_scopes.specs.UsesFound.{names_found, uses_found}
use Rattle.wf_names_uses.proofs.UseLaws.{uses_found-decides}
use Rattle.wf_names_cycles.specs.declared.cycles_found.NamedCycles.{NamedCycles}
use Rattle.wf_names_cycles.specs.CyclesFound.{DecidesWith, AreStructCycles, AreMethodCycles, IsCallOrder, IsStructOrder}
use Rattle.wf_names_cycles.proofs.CycleLemmas.{Decides-both, decides-with}
use Rattle.wf_names_sizes.specs.Deciding.{DecidesBehind}
use Rattle.wf_names_sizes.specs.Orders.{IsHoldingOrder}
use Rattle.wf_names_sizes.specs.StructSizes.{AreHolding}
use Rattle.wf_names_sizes.proofs.CycleLemmas.{cycles-hold, order-holds}
use Rattle.wf_names_sizes.proofs.DecidingLaws.{behind-decides}

-- What breaks a rule of declarations, of labels or of uses; and of cycles besides.
abbrev NamesBreak : Declared → Refusal → Type 0
NamesBreak d s = (DeclarationBreaks d s ⊎ LabelBreaks d s) ⊎ UseBreaks d s

abbrev BreaksButSizes : Declared → Refusal → Type 0
BreaksButSizes d s = NamesBreak d s ⊎ CycleBreaks d s

declarations-alone : (d : Declared) → Decides (DeclarationBreaks d) (declarations_found d None)
declarations-alone d =
    Decides-map (λ s. ⊥ ⊎ DeclarationBreaks d s) (DeclarationBreaks d) (declarations_found d None)
    (λ s c. elim c [ inl none ↦ absurd none | inr b ↦ b ]) (λ s b. inr b) (declarations-decide d (λ s. ⊥) None (λ s none. none))

names-decide : (d : Declared) → Decides (NamesBreak d) (names_found d (declarations_found d None))
names-decide d =
    Decides-both (λ s. DeclarationBreaks d s ⊎ LabelBreaks d s) (UseBreaks d) (labels_found d (declarations_found d None)) (uses_found d None)
    (labels-decide d (DeclarationBreaks d) (declarations_found d None) (declarations-alone d)) (uses_found-decides d)

-- After declarations, labels and uses the cycles.
but-sizes : (d : Declared) (found all : Option Refusal) → found ≡ names_found d (declarations_found d None) → DecidesWith (CycleBreaks d) found all
    → Decides (BreaksButSizes d) all
but-sizes d found all e h =
    let P : Option Refusal → Type 0 = Decides (NamesBreak d) in
    decides-with (NamesBreak d) (CycleBreaks d) found all (subst P (sym e) (names-decide d)) h

-- The table and the sum of its sections.
from-sections : (d : Declared) (s : Refusal) → BreaksButSizes d s ⊎ SizeBreaks d s → Breaks d s
from-sections d s (inl (inl (inl (inl b)))) = by_declaration s b
from-sections d s (inl (inl (inl (inr b)))) = by_label s b
from-sections d s (inl (inl (inr b))) = by_use s b
from-sections d s (inl (inr b)) = by_cycle s b
from-sections d s (inr b) = by_size s b

to-sections : (d : Declared) (s : Refusal) → Breaks d s → BreaksButSizes d s ⊎ SizeBreaks d s
to-sections d _ (by_declaration s b) = inl (inl (inl (inl b)))
to-sections d _ (by_use s b) = inl (inl (inr b))
to-sections d _ (by_label s b) = inl (inl (inl (inr b)))
to-sections d _ (by_cycle s b) = inl (inr b)
to-sections d _ (by_size s b) = inr b

-- After these the sizes: the whole table.
pub all-decide : (d : Declared) (found last all : Option Refusal) → found ≡ names_found d (declarations_found d None) → DecidesWith (CycleBreaks d) found last
    → DecidesBehind (SizeBreaks d) last all → Decides (Breaks d) all
all-decide d found last all e h k =
    Decides-map (λ s. BreaksButSizes d s ⊎ SizeBreaks d s) (Breaks d) all (from-sections d) (to-sections d)
    (behind-decides (BreaksButSizes d) (SizeBreaks d) last all (but-sizes d found last e h) k)

-- Cycles of the structs tell which of them hold themselves, and their order is one of the structs.
pub flags-hold : (d : Declared) (named : NamedCycles) → AreStructCycles d named → AreHolding d named.cycles.flags.items
flags-hold d named h =
    let P : ℕ → Type 0 = λ n. AreCycles h.rows named.cycles.flags.items n in
    cycles-hold d h.rows named.cycles.flags.items h.made.same (subst P h.made.len h.cycles.flags)

pub order-stands : (d : Declared) (named : NamedCycles) → AreStructCycles d named → IsHoldingOrder d named.cycles.order.items
order-stands d named h =
    let o = h.cycles.order in
    order-holds d h.rows named.cycles.order.items h.made.same (λ s l. o.every s (omega (arith, l, h.made.len))) (λ s k. omega (arith, o.within s k, h.made.len)) o.behind

-- The cycles of the methods have an order of the calls, and those of the structs an order of the structs.
pub order-of-calls : (d : Declared) (named : NamedCycles) → AreMethodCycles d named → IsCallOrder d named.cycles.order.items
order-of-calls d named h = record { rows = h.rows; made = h.made; order_of = h.cycles.order }

pub order-of-structs : (d : Declared) (named : NamedCycles) → AreStructCycles d named → IsStructOrder d named.cycles.order.items
order-of-structs d named h = record { rows = h.rows; made = h.made; order_of = h.cycles.order }
