-- An init makes a receiver ready with all struct states inside it.
use Rattle.std.proofs.Common.{◌≡◌, ℕ, zero, suc, List, [], ◌∷◌, length, map, replicate, None, refl}
use Rattle.std.specs.List.{AllByRecursion}
use Rattle.wf_meaning.specs.SourceState.{Held, held_num, held_truth, held_status, held_cells, held_part, Object, cleared, cleared_object}
use Rattle.wf_meaning.specs.Laws.{IsZero, IsReady}

all_replicate : {X : Type 0} (P : X → Type 0) (x : X) (n : ℕ) → P x → AllByRecursion P (replicate n x)
all_replicate P x zero h = tt
all_replicate P x (suc n) h = (h, all_replicate P x n h)

zero_held : (held : Held) → IsZero (cleared held)
zero_held (held_num n) = refl
zero_held (held_truth b) = refl
zero_held (held_status n) = refl
zero_held (held_cells cells) = all_replicate (λ cell. cell ≡ 0) 0 (length cells) refl
zero_held (held_part object) = tt

zero_fields : (fields : List Held) → AllByRecursion IsZero (map cleared fields)
zero_fields [] = tt
zero_fields (held ∷ fields) = (zero_held held, zero_fields fields)

ready_object : (o : Object) → IsReady (cleared_object o)
ready_object o = record { life = refl; zero = zero_fields o.fields; inactive = refl; nothing = all_replicate (λ left. left ≡ None) None (length o.remaining) refl }

pub ready_objects : (objects : List Object) → AllByRecursion IsReady (map cleared_object objects)
ready_objects [] = tt
ready_objects (o ∷ objects) = (ready_object o, ready_objects objects)
