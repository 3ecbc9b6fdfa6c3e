use Rattle.std.proofs.Common.{◌≡◌, ◌∙◌, ℕ, List, ◌∷◌, refl, arith}
use Rattle.rc_keys.specs.KeyWords.{def_words}
use Rattle.rc_keys.proofs.Different.{def_differ}
use Rattle.rc_keys.proofs.keys.def_keys.Goals as goal

cons : {a b : List ℕ} {xs ys : List (List ℕ)} → a ≡ b → xs ≡ ys → a ∷ xs ≡ b ∷ ys
cons same alike = λ i. same i ∷ alike i

pub new-requires-85 : goal.new-requires-85
unfolding def_words
new-requires-85 c = (
  omega arith,
  (
    omega arith,
    (
      omega arith,
      def_differ _ (
          (cons c.new.ensures (cons c.new-2.ensures (cons c.new-3.ensures (cons c.new-4.ensures (cons c.new-5.ensures (cons c.new-6.ensures (cons c.new-7.ensures (cons c.new-8.ensures
          (cons c.new-9.ensures (cons c.new-10.ensures (cons c.new-11.ensures (cons c.new-12.ensures (cons c.new-13.ensures (cons c.new-14.ensures (cons c.new-15.ensures (cons c.new-16.ensures
          (cons c.new-17.ensures (cons c.new-18.ensures (cons c.new-19.ensures (cons c.new-20.ensures (cons c.new-21.ensures (cons c.new-22.ensures (cons c.new-23.ensures (cons c.new-24.ensures
          (cons c.new-25.ensures (cons c.new-26.ensures (cons c.new-27.ensures (cons c.new-28.ensures (cons c.new-29.ensures (cons c.new-30.ensures (cons c.new-31.ensures (cons c.new-32.ensures
          (cons c.new-33.ensures (cons c.new-34.ensures (cons c.new-35.ensures (cons c.new-36.ensures (cons c.new-37.ensures (cons c.new-38.ensures (cons c.new-39.ensures (cons c.new-40.ensures
          (cons c.new-41.ensures (cons c.new-42.ensures (cons c.new-43.ensures (cons c.new-44.ensures (cons c.new-45.ensures (cons c.new-46.ensures (cons c.new-47.ensures (cons c.new-48.ensures
          (cons c.new-49.ensures (cons c.new-50.ensures (cons c.new-51.ensures (cons c.new-52.ensures (cons c.new-53.ensures (cons c.new-54.ensures (cons c.new-55.ensures (cons c.new-56.ensures
          (cons c.new-57.ensures (cons c.new-58.ensures (cons c.new-59.ensures (cons c.new-60.ensures (cons c.new-61.ensures (cons c.new-62.ensures (cons c.new-63.ensures (cons c.new-64.ensures
          (cons c.new-65.ensures (cons c.new-66.ensures (cons c.new-67.ensures (cons c.new-68.ensures (cons c.new-69.ensures (cons c.new-70.ensures (cons c.new-71.ensures (cons c.new-72.ensures
          (cons c.new-73.ensures (cons c.new-74.ensures (cons c.new-75.ensures (cons c.new-76.ensures (cons c.new-77.ensures (cons c.new-78.ensures (cons c.new-79.ensures (cons c.new-80.ensures
          (cons c.new-81.ensures (cons c.new-82.ensures (cons c.new-83.ensures (cons c.new-84.ensures refl))))))))))))))))))))))))))))))))))))))))))))))))))))))))))))))))))))))))))))))))))))),
    ),
  ),
)

pub returns-clause-words : goal.returns-clause-words
unfolding def_words
returns-clause-words c =
    c.new-85.ensures ∙
    (cons c.new.ensures (cons c.new-2.ensures (cons c.new-3.ensures (cons c.new-4.ensures (cons c.new-5.ensures (cons c.new-6.ensures (cons c.new-7.ensures (cons c.new-8.ensures
    (cons c.new-9.ensures (cons c.new-10.ensures (cons c.new-11.ensures (cons c.new-12.ensures (cons c.new-13.ensures (cons c.new-14.ensures (cons c.new-15.ensures (cons c.new-16.ensures
    (cons c.new-17.ensures (cons c.new-18.ensures (cons c.new-19.ensures (cons c.new-20.ensures (cons c.new-21.ensures (cons c.new-22.ensures (cons c.new-23.ensures (cons c.new-24.ensures
    (cons c.new-25.ensures (cons c.new-26.ensures (cons c.new-27.ensures (cons c.new-28.ensures (cons c.new-29.ensures (cons c.new-30.ensures (cons c.new-31.ensures (cons c.new-32.ensures
    (cons c.new-33.ensures (cons c.new-34.ensures (cons c.new-35.ensures (cons c.new-36.ensures (cons c.new-37.ensures (cons c.new-38.ensures (cons c.new-39.ensures (cons c.new-40.ensures
    (cons c.new-41.ensures (cons c.new-42.ensures (cons c.new-43.ensures (cons c.new-44.ensures (cons c.new-45.ensures (cons c.new-46.ensures (cons c.new-47.ensures (cons c.new-48.ensures
    (cons c.new-49.ensures (cons c.new-50.ensures (cons c.new-51.ensures (cons c.new-52.ensures (cons c.new-53.ensures (cons c.new-54.ensures (cons c.new-55.ensures (cons c.new-56.ensures
    (cons c.new-57.ensures (cons c.new-58.ensures (cons c.new-59.ensures (cons c.new-60.ensures (cons c.new-61.ensures (cons c.new-62.ensures (cons c.new-63.ensures (cons c.new-64.ensures
    (cons c.new-65.ensures (cons c.new-66.ensures (cons c.new-67.ensures (cons c.new-68.ensures (cons c.new-69.ensures (cons c.new-70.ensures (cons c.new-71.ensures (cons c.new-72.ensures
    (cons c.new-73.ensures (cons c.new-74.ensures (cons c.new-75.ensures (cons c.new-76.ensures (cons c.new-77.ensures (cons c.new-78.ensures (cons c.new-79.ensures (cons c.new-80.ensures
    (cons c.new-81.ensures (cons c.new-82.ensures (cons c.new-83.ensures (cons c.new-84.ensures refl))))))))))))))))))))))))))))))))))))))))))))))))))))))))))))))))))))))))))))))))))))
