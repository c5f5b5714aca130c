use Rattle.std.proofs.Common.{◌≡◌, ℕ, List, [], ◌∷◌, ◌++◌, map, length, ap, sym, refl, ◌∙◌, string_bytes}
use Rattle.std.specs.List.{flat_map}
use Rattle.std.specs.Int.{w32, to_le_bytes}
use Rattle.std.proofs.lemmas.List.{length-map}
use Rattle.guest_machine.specs.Start.{auxiliary_vector, string_addresses, strings_address}
use Rattle.guest_machine.proofs.Stacks.{words_joined}
use Rattle.guest_machine.proofs.stack.word_bytes.Goals as goal

pub returns : goal.returns
returns c =
    let texts = map string_bytes c.args.arguments.now in
    let counted : length texts ≡ length c.args.arguments.now = rw length-map refl in
    let tail : List ℕ = 0 ∷ 0 ∷ 3 ∷ c.header_place.result ∷ 4 ∷ 32 ∷ 5 ∷ c.header_count.result ∷ 6 ∷ 4096 ∷ 9 ∷ c.entry.result ∷ 25 ∷ 2147483632 ∷ 0 ∷ 0 ∷ [] in
    let tail_is : tail ≡ 0 ∷ 0 ∷ auxiliary_vector c.args.image.now = rw c.header_place.ensures (rw c.header_count.ensures (rw c.entry.ensures refl)) in
    let joined = words_joined (λ n. to_le_bytes w32 n) (length c.args.arguments.now) (string_addresses c.args.first texts) tail c.new-words.result.items c.push_word.new.words.items c.push_addresses.new.words.items c.push_words.new.words.items c.new-words.ensures.items c.in_ok-push_word.ensures c.in_ok-push_addresses.ensures c.in_ok-push_words.ensures in
    joined ∙ ap (λ ws. flat_map (λ n. to_le_bytes w32 n) (length c.args.arguments.now ∷ ws)) (ap (λ ws. string_addresses c.args.first texts ++ ws) tail_is ∙ ap (λ p. string_addresses p texts ++ 0 ∷ 0 ∷ auxiliary_vector c.args.image.now) c.requires.address) ∙ ap (λ n. flat_map (λ n. to_le_bytes w32 n) (n ∷ string_addresses (strings_address texts) texts ++ 0 ∷ 0 ∷ auxiliary_vector c.args.image.now)) (sym counted)
