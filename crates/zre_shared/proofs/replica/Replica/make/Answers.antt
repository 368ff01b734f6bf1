use Rattle.std.proofs.Common.{◌≡◌, ℕ, ◌<◌, ◌≤◌, ◌^◌, List, All, ap, length, arith, rules}
use Rattle.std.proofs.lemmas.List.Elements.{All-same}
use Rattle.zre_values.specs.PlainId.{IsPeerId}
use Rattle.zre_shared.specs.declared.write.Write.{Write}
use Rattle.zre_shared.specs.declared.write.TheConstants.{KEY_OCTETS, VALUE_OCTETS}
use Rattle.zre_shared.specs.Writes.{IsWrite}
use Rattle.zre_shared.proofs.MapKeepsTable.{octets-all}
use Rattle.zre_shared.proofs.replica.Replica.make.Goals as goal

-- a write of octets that were copied
is_write : (w : Write) (key value : List ℕ) → w.key ≡ key → All (λ (b : ℕ). b < 2 ^ 8) key → length key ≤ KEY_OCTETS → w.count < 2 ^ 64 → IsPeerId w.id
    → w.value ≡ value → All (λ (b : ℕ). b < 2 ^ 8) value → length value ≤ VALUE_OCTETS → IsWrite w
is_write w key value k key_is key_fits count id v value_is value_fits = record {
  key = All-same (λ (b : ℕ). b < 2 ^ 8) w.key key k key_is;
  key_fits = omega (arith, key_fits, ap (length {A = ℕ}) k);
  count = count;
  id = id;
  value = All-same (λ (b : ℕ). b < 2 ^ 8) w.value value v value_is;
  value_fits = omega (arith, value_fits, ap (length {A = ℕ}) v);
}

pub returns-clause-is : goal.returns-clause-is
returns-clause-is c =
    let key = octets-all c.args.key.now (λ i. omega (arith, c.type_inv.key i)) in
    let value = octets-all c.args.value.now (λ i. omega (arith, c.type_inv.value i)) in
    is_write (record { key = c.in_ok-name.name; count = c.in-Some.count; id = c.self.inside.id; value = c.in-Ok.text }) c.args.key.now c.args.value.now c.in_ok-name.ensures key c.requires.key (search rules) c.self.invariant.id_fits c.in-Ok.ensures value c.requires.value
