-- How many messages were put on links, as a node answers it.
use Rattle.std.proofs.Common.{◌≡◌, ℕ, List, [], ◌∷◌, ◌++◌, length, map, Option, Some, None, IsSome, refl, sym, ap, ◌∙◌, subst, option_map}
use Rattle.std.specs.Prelude.{option_to_list}
use Rattle.std.specs.Option.{unwrap_or}
use Rattle.zre_outside.specs.declared.entry.Entry.{Entry}
use Rattle.zre_values.specs.declared.settings.Settings.{Settings as Config}
use Rattle.zre_journal.specs.Chronicle.{Mark}
use Rattle.zre_journal.specs.Events.{chronicle}
use Rattle.zre_journal.specs.Links.{bodies}
use Rattle.zre_journal.specs.Peers.{Life, lives, life, life_of}
use Rattle.zre_journal.proofs.ProperChronicles.{is_proper}
use Rattle.zre_journal.proofs.KnownPeers.{AreKnown, each_known, known_of}
use Rattle.zre_journal.proofs.NumberedLists.{some_is}
use Rattle.zre_journal.proofs.ProperPeers.{known_lives}
use Rattle.zre_values.specs.declared.peer_id.PeerId.{PeerId}
use Rattle.zre_journal.specs.Asked.{link_later}
use Rattle.zre_node.specs.Asked.{sent_after, links_after}
use Rattle.zre_audit.specs.Kept.{reached, count_on, counts_of}
use Rattle.zre_audit.specs.declared.put.Count.{Count}

module _ (g : Config) (J : List Entry) where
  abbrev H : List Mark
  H = chronicle g J

  sent_is : (l : ℕ) → IsSome (life l H) → unwrap_or (sent_after g J l) 0 ≡ length (bodies l H)
  sent_is l s =
      let v = some_is (life l H) s in
      ap (λ o. unwrap_or (option_map (λ (u : Life). length (bodies u.link H)) o) 0) v.1
      ∙ ap (λ k. length (bodies k H)) (sym (known_lives H (is_proper g J) l v.0 v.1).2)

  all_counts : (vs : List Life) → AreKnown H vs → map (count_on g J) (map (λ (v : Life). v.link) vs) ≡ counts_of H vs
  all_counts [] k = refl
  all_counts (v ∷ vs) k = λ i. record { link = v.link; count = sent_is v.link k.0 i } ∷ all_counts vs k.1 i

  pub counts_are : map (count_on g J) (links_after g J) ≡ counts_of H (lives H)
  counts_are = all_counts (lives H) (each_known H)

  -- the count on the link of a peer, if it is known
  pub count_none : (p : PeerId) (counts : List Count) → counts ≡ [] → link_later g J p ≡ None → counts ≡ counts_of H (reached (Some p) H)
  count_none p counts none e = none ∙ by (life_of p H) refl
    where
      by : (o : Option Life) → life_of p H ≡ o → [] ≡ counts_of H (reached (Some p) H)
      by None z = sym (ap (λ q. counts_of H (option_to_list q)) z)
      by (Some v) z = absurd (let w : Some v.link ≡ None = sym (ap (option_map (λ (u : Life). u.link)) z) ∙ e in cc)

  pub count_one : (p : PeerId) (l : ℕ) (counts new : List Count) (x : Count) → counts ≡ [] → link_later g J p ≡ Some l → x ≡ count_on g J l → new ≡ counts ++ x ∷ [] → new ≡ counts_of H (reached (Some p) H)
  count_one p l counts new x none e is more = more ∙ ap (λ cs. cs ++ x ∷ []) none ∙ ap (λ y. y ∷ []) is ∙ by (life_of p H) refl
    where
      by : (o : Option Life) → life_of p H ≡ o → count_on g J l ∷ [] ≡ counts_of H (reached (Some p) H)
      by None z = absurd (let w : None ≡ Some l = sym (ap (option_map (λ (u : Life). u.link)) z) ∙ e in cc)
      by (Some v) z =
          let same : v.link ≡ l = let w : Some v.link ≡ Some l = sym (ap (option_map (λ (u : Life). u.link)) z) ∙ e in cc in
          ap (λ k. count_on g J k ∷ []) (sym same)
          ∙ (λ i. record { link = v.link; count = sent_is v.link (subst IsSome (sym (known_of H (is_proper g J) p v z)) refl) i } ∷ [])
          ∙ sym (ap (λ q. counts_of H (option_to_list q)) z)
