-- Frames taken one after the other.
use Rattle.std.proofs.Common.{◌≡◌, ℕ, List, [], ◌∷◌, ◌++◌, Option, Some, None, map, filter_map, All, refl, sym, ap, ◌∙◌, append_assoc}
use Rattle.std.specs.List.{AllByRecursion, cons_option}
use Rattle.std.specs.Option.{option_map_or}
use Rattle.std.proofs.lemmas.List.{append-nil}
use Rattle.std.proofs.lemmas.List.Elements.{recursion_from_All}
use Rattle.zre_values.specs.declared.peer_id.PeerId.{PeerId}
use Rattle.zre_shared.specs.declared.write.Write.{Write}
use Rattle.zre_shared.specs.Replicas.{HeldWrites, with_write, with_frames}
use Rattle.zre_shared.specs.Tables.{table}
use Rattle.zre_shared.specs.Writes.{IsWrite, write_of, write_text}
use Rattle.zre_shared.proofs.FramesOfWrites.{write_of-text}
use Rattle.zre_shared.proofs.RisingKeys.{at_member, all_members}
use Rattle.zre_shared.proofs.TableIsOneList.{tables, table-left, table-right}

abbrev holding : PeerId → List Write → HeldWrites
holding id ws = record { id = id; writes = table ws }

pub taken : (id : PeerId) (ws : List Write) (frames : List (List ℕ)) → with_frames (holding id ws) frames ≡ holding id (ws ++ filter_map write_of frames)
taken id ws [] = ap (holding id) (sym (append-nil ws))
taken id ws (f ∷ fs) =
    elim (write_of f) as (λ o. with_frames (option_map_or (with_write (holding id ws)) o (holding id ws)) fs ≡ holding id (ws ++ cons_option o (filter_map write_of fs))) [
      | Some w ↦
          ap (λ (t : List Write). with_frames (record { id = id; writes = t }) fs) (table-left ws (w ∷ []))
          ∙ taken id (ws ++ w ∷ []) fs
          ∙ ap (holding id) (append_assoc ws (w ∷ []) (filter_map write_of fs))
      | None ↦ taken id ws fs
    ]

-- the frames of writes are read as the writes
pub again : (t : List Write) → AllByRecursion IsWrite t → filter_map write_of (map write_text t) ≡ t
again [] h = refl
again (w ∷ t) h =
    ap (λ (o : Option Write). cons_option o (filter_map write_of (map write_text t))) (write_of-text w h.0)
    ∙ ap (λ (r : List Write). w ∷ r) (again t h.1)

table-fits : (ws : List Write) → All IsWrite ws → AllByRecursion IsWrite (table ws)
table-fits ws h = all_members IsWrite (table ws) (λ x i. at_member IsWrite ws x (recursion_from_All IsWrite ws h) ((tables ws).among x i))

pub joined : (id : PeerId) (xs ys : List Write) → All IsWrite ys → with_frames (holding id xs) (map write_text (table ys)) ≡ holding id (xs ++ ys)
joined id xs ys h =
    taken id xs (map write_text (table ys))
    ∙ ap (λ (r : List Write). holding id (xs ++ r)) (again (table ys) (table-fits ys h))
    ∙ ap (λ (t : List Write). record { id = id; writes = t }) (table-right xs ys)
