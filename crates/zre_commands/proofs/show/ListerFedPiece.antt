-- The machine of `show`, fed one more piece: the text of more octets begins with that of fewer.
use Rattle.std.proofs.Common.{◌≡◌, ℕ, None, true, false, ◌||◌, List, [], ◌++◌, refl, ap, ◌∙◌}
use Rattle.std.specs.Prelude.{is_some}
use Rattle.std.proofs.lemmas.List.Concat.{flat_map-append}
use Rattle.std.proofs.lemmas.Bool.{or_left}
use Rattle.zre_commands.specs.pump.Meaning.{Grows}
use Rattle.zre_zmtp.specs.Reading.{new_items}
use Rattle.zre_zmtp.specs.Stream.{Whole, items, fault, cut, greeting_fault}
use Rattle.zre_zmtp.specs.declared.want.Want.TheVariants.{Any}
use Rattle.zre_zmtp.specs.declared.item.Item.{Item}
use Rattle.zre_zmtp.proofs.ReadersFollowStreams.{extends}
use Rattle.zre_commands.specs.show.Lines.{line, lines}
use Rattle.zre_commands.specs.show.Show.{show, text, is_stopped, is_bad}

text_more : (o x : List ℕ) → text (o ++ x) ≡ text o ++ lines (new_items Any Whole o x)
text_more o x = ap lines (extends Any Whole o x) ∙ flat_map-append line (items Any Whole o) (new_items Any Whole o x)

pub text_grows : (o x : List ℕ) → (added : List ℕ) × (text (o ++ x) ≡ text o ++ added)
text_grows o x = (_, text_more o x)

pub no_fault : fault Any Whole [] ≡ None
unfolding cut greeting_fault
no_fault = refl

pub text_nothing : text [] ≡ []
unfolding cut
text_nothing = refl

pub nothing_stopped : is_stopped [] ≡ false
nothing_stopped = ap is_some no_fault

-- what is refused however it goes on is refused as it is
pub stopped_is_bad : (o : List ℕ) → is_stopped o ≡ true → is_bad o ≡ true
stopped_is_bad o e = or_left (is_some (fault Any Whole o)) _ e

-- the lines of the new items were appended, where no items stood before
pub text_on : (o x out out' : List ℕ) (items : List Item) → items ≡ new_items Any Whole o x → out' ≡ out ++ lines items → Grows show o x out out'
text_on o x out out' items are t = record {
  added = lines (new_items Any Whole o x);
  longer = text_more o x;
  appended = t ∙ ap (λ is. out ++ lines is) are;
}
