use Rattle.std.proofs.Common.{◌≡◌, ℕ, ◌+◌, List, [], ◌∷◌, ◌++◌, length, vec_items, vec_len, sym, ap, ◌∙◌, arith}
use Rattle.std.proofs.ResultArms.{chosen}
use Rattle.names.specs.declared.store.TextStore.{TextStore}
use Rattle.names.specs.Cuts.{cuts}
use Rattle.names.specs.Held.{held}
use Rattle.names.specs.Texts.{distinct}
use Rattle.names.proofs.Cutting.{chained_push, cuts_push}
use Rattle.names.proofs.Seeking.{distinct_push}
use Rattle.names.proofs.Storing.{count, used}
use Rattle.names.proofs.store.TextStore.push.Goals as goal

-- the texts after the bytes and the end were added
pushed : (s : TextStore) (t : List ℕ) (n : ℕ) (ends bytes : List ℕ) → n ≡ vec_len s.bytes → ends ≡ vec_items s.ends ++ (n + length t) ∷ [] → bytes ≡ vec_items s.bytes ++ t → cuts 0 ends bytes ≡ held s ++ t ∷ []
pushed s t n ends bytes len e b =
    (λ i. cuts 0 (e i) (b i))
    ∙ ap (λ m. cuts 0 (vec_items s.ends ++ (m + length t) ∷ []) (vec_items s.bytes ++ t)) len
    ∙ cuts_push 0 (vec_items s.ends) (vec_items s.bytes) t (vec_len s.bytes) (sym s.bytes.ok.0) s.chain

pub push_reserved-requires : goal.push_reserved-requires
push_reserved-requires c = let s = c.args.self.now in omega (arith, c.requires.few, count s, s.slots)

pub invariant_of-self : goal.invariant_of-self
invariant_of-self c =
    let s = c.args.self.now in
    let ok = c.extend_from_slice.ensures.succeeds (omega (arith, used s, c.requires.short, s.room)) in
    let whole = pushed s c.args.text.now _ _ _ c.len.ensures c.push_reserved.ensures.items (chosen _ _ _ _ c.extend_from_slice.ensures.items ok) in
    let end : vec_len c.extend_from_slice.new.self ≡ c.len.result + length c.args.text.now = chosen _ _ _ _ c.extend_from_slice.ensures.len ok ∙ ap (λ n. n + length c.args.text.now) (sym c.len.ensures) in
    record {
      chain = rw (c.push_reserved.ensures.items, end) (chained_push 0 (vec_items s.ends) (vec_len s.bytes) (c.len.result + length c.args.text.now) s.chain (omega (arith, c.len.ensures)));
      few = omega (arith, c.push_reserved.ensures.len, c.requires.few, count s);
      short = omega (arith, end, c.len.ensures, used s, c.requires.short);
      slots = omega (arith, c.push_reserved.ensures.capacity, s.slots);
      room = omega (arith, c.extend_from_slice.ensures.capacity, s.room);
      apart = ap distinct whole ∙ distinct_push (held s) c.args.text.now s.apart c.requires.new;
    }

pub returns : goal.returns
returns c =
    let s = c.args.self.now in
    let ok = c.extend_from_slice.ensures.succeeds (omega (arith, used s, c.requires.short, s.room)) in
    pushed s c.args.text.now _ _ _ c.len.ensures c.push_reserved.ensures.items (chosen _ _ _ _ c.extend_from_slice.ensures.items ok)
