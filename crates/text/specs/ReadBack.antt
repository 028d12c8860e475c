-- READING BACK: what a number, a signed number, a word and a line are read as. That each can be worked out from its text is proved in proofs/ReadBack.antt.
use Rattle.std.specs.Prelude.{ℕ, zero, suc, ◌+◌, ◌*◌, ◌-◌, ◌<◌, List, [], ◌∷◌, cond, ltb, eqb, ℤ, pos, neg_ℤ, get_or}
use Rattle.definition.specs.Answers.{Word, ended, spent, completed_word, refused_word, builtin, opcode}

-- 0 to 9 from 48 on, and a, which stands for 10, from 97 on
abbrev pub digit_value : ℕ → ℕ
digit_value x = cond (ltb x 58) (x - 48) (x - 87)

-- the number that the digits make, after others that make `so_far`
abbrev pub number_from : ℕ → ℕ → List ℕ → ℕ
number_from base so_far [] = so_far
number_from base so_far (x ∷ xs) = number_from base (so_far * base + digit_value x) xs

abbrev pub number : ℕ → List ℕ → ℕ
number base xs = number_from base 0 xs

abbrev pub signed_number : List ℕ → ℤ
signed_number [] = pos 0
signed_number (x ∷ xs) = cond (eqb x 45) (neg_ℤ (pos (number 10 xs))) (pos (number 10 (x ∷ xs)))

-- every byte of the text is above c
pub data Above (c : ℕ) : List ℕ → Type 0 where
  none : Above c []
  more : {x : ℕ} {xs : List ℕ} → c < x → Above c xs → Above c (x ∷ xs)

-- the first letter tells
abbrev pub word_of : List ℕ → Word
word_of xs =
    let x = get_or xs 0 0 in
    cond (eqb x 101) ended (cond (eqb x 115) spent (cond (eqb x 99) completed_word (cond (eqb x 114) refused_word (cond (eqb x 98) builtin opcode))))

abbrev pub up_to : ℕ → List ℕ → List ℕ
up_to c [] = []
up_to c (x ∷ xs) = let longer = x ∷ up_to c xs in cond (eqb x c) [] longer

abbrev pub past : ℕ → List ℕ → List ℕ
past c [] = []
past c (x ∷ xs) = let later = past c xs in cond (eqb x c) xs later

-- what the line says, by its fields
pub record Shown : Type 0 where
  pub word : Word
  pub detail : ℕ
  pub count : ℕ
  pub position : ℤ
  pub function : ℕ
  pub depth : ℕ
  pub saved : ℕ
  pub c1 : ℕ
  pub c2 : ℕ
  pub c3 : ℕ

-- what stands past k commas
abbrev past_commas : ℕ → List ℕ → List ℕ
past_commas zero l = l
past_commas (suc k) l = past_commas k (past 44 l)

abbrev pub read_line : List ℕ → Shown
read_line l =
    record {
      word = word_of (up_to 44 l);
      detail = number 10 (up_to 44 (past_commas 1 l));
      count = number 10 (up_to 44 (past_commas 2 l));
      position = signed_number (up_to 44 (past_commas 3 l));
      function = number 10 (up_to 44 (past_commas 4 l));
      depth = number 10 (up_to 44 (past_commas 5 l));
      saved = number 10 (up_to 44 (past_commas 6 l));
      c1 = number 16 (up_to 44 (past_commas 7 l));
      c2 = number 16 (up_to 44 (past_commas 8 l));
      c3 = number 16 (up_to 10 (past_commas 9 l));
    }
