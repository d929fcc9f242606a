-- To be believed. 01, "From probit to chance": table D.3 of source document 000 as 01 prints it, with the two entries of 02, request P2. Assumes nothing.
use Rattle.std.specs.Prelude.{List, [], ◌∷◌, ◌++◌, ℕ, ◌+◌, ◌*◌}

-- a row: a chance in millionths, and the least probit, in millionths, that reaches it
pub record Row : Type 0 where
  pub chance : ℕ
  pub probit : ℕ

-- probits in hundredths: 1 % to 9 %, then from each ten on
abbrev pub whole_percents : List ℕ
whole_percents =
    267 ∷ 295 ∷ 312 ∷ 325 ∷ 336 ∷ 345 ∷ 352 ∷ 359 ∷ 366 ∷
    372 ∷ 377 ∷ 382 ∷ 387 ∷ 392 ∷ 396 ∷ 401 ∷ 405 ∷ 408 ∷ 412 ∷
    416 ∷ 419 ∷ 423 ∷ 426 ∷ 429 ∷ 433 ∷ 436 ∷ 439 ∷ 442 ∷ 445 ∷
    448 ∷ 450 ∷ 453 ∷ 456 ∷ 459 ∷ 461 ∷ 464 ∷ 467 ∷ 469 ∷ 472 ∷
    475 ∷ 477 ∷ 480 ∷ 482 ∷ 485 ∷ 487 ∷ 490 ∷ 492 ∷ 495 ∷ 497 ∷
    500 ∷ 503 ∷ 505 ∷ 508 ∷ 510 ∷ 513 ∷ 515 ∷ 518 ∷ 520 ∷ 523 ∷
    525 ∷ 528 ∷ 531 ∷ 533 ∷ 536 ∷ 539 ∷ 541 ∷ 544 ∷ 547 ∷ 550 ∷
    552 ∷ 555 ∷ 558 ∷ 561 ∷ 564 ∷ 567 ∷ 571 ∷ 574 ∷ 577 ∷ 581 ∷
    584 ∷ 588 ∷ 592 ∷ 595 ∷ 599 ∷ 604 ∷ 608 ∷ 613 ∷ 618 ∷ 623 ∷
    628 ∷ 634 ∷ 641 ∷ 648 ∷ 655 ∷ 664 ∷ 675 ∷ 688 ∷ 705 ∷ 733 ∷ []

-- 99.1 % to 99.9 %; 02, request P2: 99.6 % is 7.65 (758 in 01) and 99.7 % is 7.75 (765 in 01)
abbrev pub tenths_of_percent : List ℕ
tenths_of_percent =
    737 ∷ 741 ∷ 746 ∷ 751 ∷ 758 ∷ 765 ∷ 775 ∷ 788 ∷ 809 ∷ []

-- all of them, in the order of the table
abbrev pub probits : List ℕ
probits = whole_percents ++ tenths_of_percent

-- the rows of some probits, whose chances start at one and rise by a step
abbrev pub rows_from : ℕ → ℕ → List ℕ → List Row
rows_from chance step [] = []
rows_from chance step (y ∷ ys) = record { chance = chance; probit = y * 10000 } ∷ rows_from (chance + step) step ys

-- the whole table
unfoldable pub probit_table : List Row
probit_table = rows_from 10000 10000 whole_percents ++ rows_from 991000 1000 tenths_of_percent
